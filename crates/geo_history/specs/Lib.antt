pub mod Replays
pub mod Keeping
pub mod Stories
pub mod Sizes
pub mod Logging
