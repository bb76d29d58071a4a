pub mod Naturals
pub mod Reals
pub mod Texts
