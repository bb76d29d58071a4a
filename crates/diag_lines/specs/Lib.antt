pub mod Codes
pub mod Order
pub mod Sets
pub mod Lines
