pub mod ArabicFrench
pub mod ArabicFrenchLaws
pub mod Noted
