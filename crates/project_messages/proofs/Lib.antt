pub mod LimitLemmas
pub mod MessageLemmas
pub mod NameLemmas
