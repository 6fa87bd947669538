pub mod Refuted
pub mod Lost
