pub mod Blocks
pub mod BlocksLaws
pub mod Anew
pub mod AnewLaws
