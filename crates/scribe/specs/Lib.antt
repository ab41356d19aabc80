pub mod FitsLaws
pub mod Lent
pub mod LentLaws
pub mod Page
pub mod PageLaws
pub mod Text
pub mod TextLaws
