pub mod Carried
pub mod Devices
pub mod Dummies
pub mod Flags
pub mod Rooms
pub mod Seats
pub mod Shown
pub mod Stations
