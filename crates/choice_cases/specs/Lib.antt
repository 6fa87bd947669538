pub mod Tables
pub mod Treated
pub mod Shared
pub mod Photos
