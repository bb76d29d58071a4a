pub mod Alone
pub mod Codes
pub mod Devices
pub mod Found
pub mod Held
pub mod Kept
pub mod Rules
pub mod Sheets
