pub mod Evaluated
pub mod Worked
pub mod Orders
