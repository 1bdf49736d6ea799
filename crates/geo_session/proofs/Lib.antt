pub mod Answered
pub mod Chains
