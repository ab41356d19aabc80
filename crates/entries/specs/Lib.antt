pub mod Entries
pub mod Ready
