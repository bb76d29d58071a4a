pub mod RpdoLemmas
pub mod WalkLemmas
pub mod AbortLemmas
pub mod ReceptionLemmas
