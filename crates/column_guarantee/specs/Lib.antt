pub mod Final
pub mod FinalLaws
