pub mod Keys
pub mod Lengths
pub mod Bodies
pub mod Operations
pub mod Normal
