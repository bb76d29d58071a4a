pub mod Faults
pub mod Accepts
pub mod Forms
pub mod Versions
pub mod Eds
pub mod Stamps
pub mod Edits
pub mod Lines
