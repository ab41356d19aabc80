pub mod CallsLaws
pub mod Needed
pub mod PlacesLaws
pub mod Posted
pub mod Privacy
pub mod SplitLaws
