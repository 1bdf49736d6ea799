pub mod Bares
pub mod Seats
pub mod Chains
