pub mod Bodies
pub mod Above
pub mod Normal
pub mod ByEight
