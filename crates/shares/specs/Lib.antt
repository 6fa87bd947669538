pub mod Eights
pub mod EightsLaws
