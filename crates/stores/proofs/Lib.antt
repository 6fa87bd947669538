pub mod StoresLaws
pub mod RunLaws
pub mod Examples
