pub mod Frames
pub mod Server
