pub mod PassesLaws
pub mod Examples
