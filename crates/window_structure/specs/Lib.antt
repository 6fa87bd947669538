pub mod ColumnLaws
pub mod Laying
pub mod LayingLaws
