pub mod FitsLaws
pub mod PlaceLaws
pub mod Spot
pub mod SpotLaws
