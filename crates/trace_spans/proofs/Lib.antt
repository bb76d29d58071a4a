pub mod SpanLemmas
mod MatchLemmas
pub mod NumberLemmas
pub mod KnownLemmas
pub mod OnceLemmas
pub mod PassageLemmas
