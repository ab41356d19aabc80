pub mod Held
pub mod Lists
pub mod Own
pub mod OwnLists
pub mod Tables
pub mod TablesLaws
