pub mod AddingLemmas
pub mod ConverseLemmas
pub mod GivenLemmas
pub mod IndexLemmas
pub mod ListedLemmas
pub mod OnceLemmas
pub mod PlaceLemmas
pub mod TableLemmas
