pub mod Standard
pub mod Ways
