pub mod Table
pub mod Sending
pub mod Shared
