pub mod Rounds
pub mod Receiving
pub mod Fetching
