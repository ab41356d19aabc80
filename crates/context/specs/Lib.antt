pub mod Context
pub mod ContextLaws
pub mod Head
pub mod HeadLaws
