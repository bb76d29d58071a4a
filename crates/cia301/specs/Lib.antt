pub mod CobIds
pub mod ConsumerHeartbeatTimes
pub mod Limits
pub mod NmtStates
pub mod PdoObjects
pub mod TransmissionTypes
