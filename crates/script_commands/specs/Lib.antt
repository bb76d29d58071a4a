pub mod Words
pub mod Links
pub mod Requests
pub mod Asked
