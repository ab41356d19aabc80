pub mod Agreement
pub mod HeadLaws
pub mod Sequences
pub mod ShiftJis
pub mod ShiftJisLaws
pub mod Standard
pub mod Ways
