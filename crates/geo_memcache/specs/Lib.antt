pub mod Entries
pub mod Asks
pub mod Decisions
