pub mod Lists
pub mod Talks
pub mod Pieces
pub mod Going
