pub mod Consumers
pub mod Had
pub mod Identifiers
pub mod Least
pub mod Limits
pub mod Receives
pub mod Rpdos
pub mod Taken
