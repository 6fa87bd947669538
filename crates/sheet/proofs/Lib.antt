pub mod SheetLaws
pub mod Examples
