pub mod Offsets
pub mod OffsetsLaws
pub mod Parts
pub mod PartsLaws
pub mod NotedLaws
pub mod FillLaws
