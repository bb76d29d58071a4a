pub mod Counts
pub mod Faults
pub mod Found
pub mod Holds
pub mod Lines
pub mod Rules
pub mod Sheets
pub mod Times
