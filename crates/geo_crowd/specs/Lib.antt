pub mod Carrying
pub mod Standings
pub mod Listing
pub mod Crowds
