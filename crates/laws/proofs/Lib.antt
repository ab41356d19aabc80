-- Laws that rest on others which an edit in must-fail/ makes wrong.
pub mod Blocks
pub mod Forgets
pub mod Going
pub mod Memory
pub mod Run
pub mod Still
pub mod Validator
