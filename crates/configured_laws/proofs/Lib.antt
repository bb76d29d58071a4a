pub mod AfterLemmas
pub mod SendingLemmas
