pub mod Keeps
pub mod Calls
pub mod Eras
mod Counting
pub mod Logging
