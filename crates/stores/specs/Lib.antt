pub mod Cases
pub mod Over
pub mod OverLaws
pub mod Stores
pub mod StoresLaws
pub mod RunLaws
