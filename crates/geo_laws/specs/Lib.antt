pub mod Registers
pub mod Vectors
