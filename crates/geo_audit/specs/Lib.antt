pub mod Openings
pub mod Runs
pub mod Misses
pub mod Playing
pub mod Merging
pub mod Verdicts
