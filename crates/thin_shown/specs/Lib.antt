pub mod Sound
pub mod Data
pub mod Blocks
pub mod Shapes
pub mod Column
pub mod Stands
pub mod Kept
