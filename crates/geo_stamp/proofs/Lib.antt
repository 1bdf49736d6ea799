pub mod Vectors
pub mod Joins
pub mod Heard
pub mod Stamps
pub mod Sets
pub mod Least
