pub mod Caseless
pub mod CaselessLaws
pub mod Noted
