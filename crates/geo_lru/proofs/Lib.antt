pub mod Reversed
pub mod Tallies
pub mod Places
pub mod Calls
pub mod Placing
