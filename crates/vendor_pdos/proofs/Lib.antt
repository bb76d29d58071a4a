pub mod EachLemmas
pub mod PresentLemmas
pub mod WithheldLemmas
