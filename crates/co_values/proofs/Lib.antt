pub mod Decimal
pub mod Formulas
pub mod Hexadecimal
pub mod KeptFormulas
pub mod Pairs
pub mod Printed
pub mod Ranges
pub mod Read
