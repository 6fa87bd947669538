pub mod Data
pub mod DataLaws
pub mod Cell
pub mod CellLaws
pub mod Stretch
pub mod StretchLaws
