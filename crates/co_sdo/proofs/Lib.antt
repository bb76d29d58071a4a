pub mod FrameLemmas
pub mod RestLemmas
pub mod WriteLemmas
pub mod WroteLaws
