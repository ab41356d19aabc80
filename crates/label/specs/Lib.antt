pub mod Label
pub mod LabelLaws
pub mod RoomLaws
