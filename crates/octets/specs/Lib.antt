pub mod BetweenLaws
pub mod Octets
