pub mod Window
pub mod WindowLaws
