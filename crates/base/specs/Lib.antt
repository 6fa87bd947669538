pub mod Choice
pub mod ChoiceLaws
pub mod Field
pub mod FieldLaws
pub mod Blit
pub mod BlitLaws
pub mod Checked
pub mod CheckedLaws
