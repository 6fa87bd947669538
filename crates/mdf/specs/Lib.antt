pub mod Block
pub mod Identification
pub mod Name
pub mod Chain
pub mod Walk
pub mod Group
pub mod Records
pub mod Count
