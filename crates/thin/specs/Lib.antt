pub mod Thin
pub mod ThinLaws
