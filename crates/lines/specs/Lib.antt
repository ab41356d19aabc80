pub mod Fields
pub mod FitsLaws
pub mod Names
pub mod Show
pub mod ShowLaws
