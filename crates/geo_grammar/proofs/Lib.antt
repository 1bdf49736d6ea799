pub mod Splitting
pub mod Transitions
pub mod Whole
pub mod Ends
pub mod Fed
pub mod KeyRuns
pub mod Told
