pub mod Node
pub mod Kept
pub mod Turn
pub mod KeptLaws
pub mod NodeLaws
pub mod ChainLaws
pub mod TurnLaws
pub mod FoundLaws
