pub mod AgreementLaws
pub mod Determined
