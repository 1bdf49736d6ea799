pub mod Orders
pub mod Arrivals
pub mod Heads
pub mod Coming
pub mod Counting
