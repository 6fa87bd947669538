pub mod Advances
pub mod AdvancesLaws
