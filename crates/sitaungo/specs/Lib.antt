pub mod Answer
pub mod ColumnFile
pub mod Readable
pub mod ReadableLaws
pub mod InSteps
pub mod TakingOut
