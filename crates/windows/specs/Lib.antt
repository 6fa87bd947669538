pub mod LayLaws
pub mod Windowed
pub mod WindowedLaws
pub mod Seen
pub mod SeenLaws
