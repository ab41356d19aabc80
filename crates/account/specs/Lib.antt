pub mod Account
pub mod AccountLaws
pub mod RoomLaws
pub mod ToldLaws
