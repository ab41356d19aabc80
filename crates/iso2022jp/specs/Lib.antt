pub mod Agreement
pub mod Edges
pub mod FirstLaws
pub mod HeadLaws
pub mod Iso2022Jp
pub mod Iso2022JpLaws
pub mod Standard
