pub mod WindowLemmas
pub mod RecordedLemmas
pub mod ValidLemmas
pub mod TracedLemmas
pub mod PlacedLemmas
pub mod NumberedLemmas
pub mod StockLemmas
pub mod AdvanceLemmas
