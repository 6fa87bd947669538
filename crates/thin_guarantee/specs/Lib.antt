pub mod Accepted
pub mod OpenedFacts
pub mod Numbers
pub mod KeptLaws
pub mod Copied
pub mod Columns
pub mod Theorem
pub mod Reader
