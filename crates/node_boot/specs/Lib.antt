pub mod Boot
pub mod Ends
