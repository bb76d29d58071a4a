pub mod Fingerprint
pub mod Held
pub mod Layers
pub mod Places
pub mod Restored
pub mod Values
