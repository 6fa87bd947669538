pub mod Ahead
pub mod AheadLaws
pub mod Spot
pub mod SpotLaws
