pub mod NetworkLemmas
pub mod TakenLemmas
