pub mod Changes
pub mod Heads
pub mod Ranges
pub mod Trails
pub mod Telling
