pub mod Bus
pub mod Dues
pub mod Lines
pub mod Runs
pub mod Spans
pub mod Telling
