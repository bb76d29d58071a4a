pub mod ChoiceLemmas
pub mod DeadlineLemmas
pub mod EndLemmas
