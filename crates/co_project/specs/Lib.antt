pub mod Tables
pub mod Project
pub mod Sound
