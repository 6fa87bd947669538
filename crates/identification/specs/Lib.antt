pub mod Answer
pub mod Cut
pub mod IdentificationLaws
pub mod Cases
