pub mod AccessLemmas
pub mod CheckLaws
pub mod CheckLemmas
pub mod IndexLemmas
pub mod MappingLemmas
pub mod PlaceLemmas
pub mod RestoredLemmas
pub mod TableLemmas
