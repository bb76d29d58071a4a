pub mod Objects
pub mod Rpdos
pub mod Tpdos
