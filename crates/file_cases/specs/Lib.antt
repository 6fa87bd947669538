pub mod Image
pub mod Worked
pub mod Forms
pub mod Plots
