pub mod Data
pub mod AnswerLaws
pub mod BlockLaws
pub mod NameLaws
