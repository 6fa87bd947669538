pub mod Columns
pub mod ColumnsLaws
pub mod PassedLaws
pub mod AllLaws
