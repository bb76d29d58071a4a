pub mod LaterLemmas
pub mod LookLemmas
pub mod NumberLemmas
pub mod PackedLemmas
pub mod QuietLemmas
pub mod RestLemmas
pub mod WriteLemmas
