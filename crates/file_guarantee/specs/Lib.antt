pub mod Passed
pub mod Names
pub mod ColumnForm
pub mod Columns
pub mod Cells
pub mod Reads
pub mod Theorem
