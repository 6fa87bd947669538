pub mod Evaluated
pub mod Starred
pub mod Excluded
pub mod Units
