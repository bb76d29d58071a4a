pub mod Digits
pub mod Finite
pub mod Limbs
pub mod Plain
pub mod ReadBack
pub mod Words
