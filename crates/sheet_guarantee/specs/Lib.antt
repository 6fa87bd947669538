pub mod SheetDue
pub mod Theorem
