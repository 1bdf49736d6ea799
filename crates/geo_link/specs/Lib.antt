pub mod Channels
pub mod Connections
pub mod Memory
pub mod Streams
pub mod Tallies
