pub mod Going
pub mod Hearing
pub mod Asking
pub mod Fetched
