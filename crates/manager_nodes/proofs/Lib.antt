pub mod EarliestLemmas
pub mod QuietLemmas
