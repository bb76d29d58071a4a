pub mod SlotLemmas
pub mod NumberLemmas
