pub mod Consumers
pub mod Profile
pub mod Reception
