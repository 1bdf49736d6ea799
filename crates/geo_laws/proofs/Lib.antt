pub mod Registers
pub mod Joins
pub mod Orders
