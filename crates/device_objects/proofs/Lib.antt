pub mod ConsumerLemmas
pub mod SubLemmas
