pub mod Roads
