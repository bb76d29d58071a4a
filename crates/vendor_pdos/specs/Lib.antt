pub mod Choices
pub mod Fixed
pub mod Mappings
pub mod Parameters
pub mod Present
pub mod Serving
