pub mod Number
pub mod Types
pub mod Values
