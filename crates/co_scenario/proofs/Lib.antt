pub mod BetweenLemmas
pub mod PieceLemmas
