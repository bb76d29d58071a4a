pub mod Known
pub mod Posted
