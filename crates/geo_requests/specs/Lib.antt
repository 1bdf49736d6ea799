pub mod Limits
pub mod Numbers
pub mod Requests
pub mod Replies
pub mod Holdings
