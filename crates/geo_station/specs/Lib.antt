pub mod Seats
pub mod Endings
pub mod Maintenance
pub mod Calls
pub mod Lacking
pub mod Receipts
pub mod Eras
pub mod Wholes
