-- The theorems that rest on what is stated of two streams.
pub mod NeededLaws
pub mod PostedLaws
pub mod PrivacyLaws
