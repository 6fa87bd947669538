pub mod Form
pub mod Opened
pub mod Range
pub mod Plot
pub mod Examples
