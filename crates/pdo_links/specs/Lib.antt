pub mod Order
pub mod PdoWrites
pub mod Tables
pub mod VendorWrites
pub mod Writes
