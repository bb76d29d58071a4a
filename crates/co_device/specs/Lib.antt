pub mod Device
pub mod Receiving
