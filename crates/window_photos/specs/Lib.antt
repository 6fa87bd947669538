pub mod Photos
pub mod PhotosLaws
pub mod SeekLaws
