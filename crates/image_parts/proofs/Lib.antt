pub mod QuestionLemmas
pub mod LoopLemmas
pub mod BlockLemmas
pub mod ToldLemmas
pub mod DueLemmas
pub mod RecordLemmas
pub mod EachLemmas
