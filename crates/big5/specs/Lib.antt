pub mod Scoring
pub mod Big5
pub mod Ways
pub mod HeadLaws
pub mod Edges
pub mod CloseLaws
