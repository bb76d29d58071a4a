pub mod IdentifierLemmas
pub mod LeastLemmas
pub mod NamingLemmas
pub mod OrderLemmas
pub mod RangeLemmas
pub mod RpdoLemmas
pub mod SpareLemmas
