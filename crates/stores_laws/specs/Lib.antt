pub mod Passing
pub mod Refused
pub mod Steps
