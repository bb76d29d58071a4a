pub mod EachPlace
pub mod FingerprintLemmas
pub mod LayerLemmas
pub mod PlaceLemmas
pub mod RestoredLemmas
pub mod WrittenLemmas
