pub mod Image
pub mod Controller
pub mod Parts
pub mod Held
pub mod Network
pub mod Steps
pub mod Devices
