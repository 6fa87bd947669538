pub mod Chosen
pub mod RulesLaws
pub mod TableLaws
