pub mod LoopLaws
pub mod Sheet
pub mod SheetLaws
