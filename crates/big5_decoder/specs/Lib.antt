pub mod Standard
pub mod SpecialsLaws
pub mod Ways
