pub mod Closings
pub mod Exchanges
pub mod Connections
pub mod Pendings
pub mod Sessions
pub mod Batches
