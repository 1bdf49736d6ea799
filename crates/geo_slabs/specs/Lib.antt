pub mod Chunks
pub mod Storage
