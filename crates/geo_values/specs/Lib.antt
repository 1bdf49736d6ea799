pub mod Stock
pub mod Links
pub mod Steps
pub mod Held
