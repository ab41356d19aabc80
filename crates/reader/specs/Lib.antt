pub mod Command
pub mod CommandLaws
pub mod Fill
pub mod FillLaws
pub mod Little
pub mod LittleLaws
pub mod Ways
