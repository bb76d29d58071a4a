pub mod Spans
pub mod Numbers
pub mod Reads
pub mod Records
pub mod Passages
