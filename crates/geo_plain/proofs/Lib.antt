pub mod Knowing
pub mod Meeting
pub mod Requesting
pub mod Touching
pub mod Happening
