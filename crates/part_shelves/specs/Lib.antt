pub mod SheetText
pub mod Slots
pub mod Busy
