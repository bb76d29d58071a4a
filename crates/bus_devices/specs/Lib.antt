pub mod Blocks
pub mod Numbers
pub mod Senders
pub mod Telling
pub mod Steps
pub mod Events
pub mod Others
pub mod Places
