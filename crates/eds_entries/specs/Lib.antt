pub mod Described
pub mod Names
pub mod Said
pub mod Sections
pub mod Shown
