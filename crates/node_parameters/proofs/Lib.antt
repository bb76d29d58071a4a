pub mod JudgedLemmas
pub mod ParameterLemmas
mod SizeLemmas
mod TextLemmas
pub mod WrittenLemmas
