pub mod Meaning
pub mod Cut
pub mod Listed
pub mod InOrder
pub mod Sifting
pub mod Lasting
pub mod Ends
pub mod Brought
