pub mod Closed
pub mod Worked
pub mod Narrow
