pub mod Demo
pub mod DemoLaws
