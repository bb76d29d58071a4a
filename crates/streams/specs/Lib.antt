pub mod Streams
pub mod Written
