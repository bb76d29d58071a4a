mod ControlLemmas
pub mod EdsLemmas
pub mod EventLemmas
pub mod StampLemmas
pub mod TextLemmas
