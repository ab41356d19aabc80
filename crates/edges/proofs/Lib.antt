pub mod UncitedLaws
