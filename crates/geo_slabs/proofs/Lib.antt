pub mod Held
pub mod Kept
pub mod Pages
pub mod Sizes
