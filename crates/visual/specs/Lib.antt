pub mod HeadLaws
pub mod Noted
pub mod Visual
pub mod VisualLaws
