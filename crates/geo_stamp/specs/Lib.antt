pub mod Stamps
pub mod Vectors
pub mod Retired
pub mod Unions
pub mod Acks
