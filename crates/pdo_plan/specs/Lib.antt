pub mod Carried
pub mod Fingerprint
pub mod Mapping
pub mod Plan
