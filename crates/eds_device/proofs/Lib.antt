pub mod CommonLemmas
pub mod DefaultLemmas
pub mod IdentityLemmas
pub mod LawLemmas
pub mod LengthLemmas
pub mod LimitLemmas
pub mod MapLemmas
pub mod ReadLemmas
