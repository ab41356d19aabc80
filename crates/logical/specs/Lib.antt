pub mod HeadLaws
pub mod Logical
pub mod LogicalLaws
pub mod Noted
