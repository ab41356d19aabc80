pub mod Digest
pub mod DigestLaws
