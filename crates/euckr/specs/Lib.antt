pub mod Scoring
pub mod EucKr
pub mod Ways
pub mod EucKrLaws
pub mod HeldLaws
pub mod HeadLaws
pub mod Edges
pub mod CloseLaws
