pub mod Decimals
