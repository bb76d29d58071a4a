pub mod Adding
pub mod FaultOf
pub mod Faults
pub mod Index
pub mod Origins
pub mod Places
pub mod Shown
pub mod Table
