pub mod Normal
pub mod Records
pub mod Maps
