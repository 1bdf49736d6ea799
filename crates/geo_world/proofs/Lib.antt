mod Registers
mod Records
mod Stepping
pub mod Sound
pub mod Serving
pub mod Worlds
pub mod Reports
pub mod Bounding
pub mod Opening
pub mod Changing
pub mod Answering
pub mod Exchanging
pub mod Running
pub mod Horizon
pub mod Moving
pub mod Alone
mod Coming
mod Keeping
mod Paging
pub mod Surviving
