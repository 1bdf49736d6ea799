pub mod Hearing
pub mod Sums
