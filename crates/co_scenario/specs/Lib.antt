pub mod Commands
pub mod Scenario
