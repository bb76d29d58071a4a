pub mod Touch
pub mod Written
pub mod Made
pub mod Given
pub mod Reached
pub mod Touched
pub mod Gone
pub mod Offered
