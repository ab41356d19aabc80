pub mod Negative
pub mod Sum
