pub mod Apart
pub mod ApartLaws
pub mod Sizes
pub mod SizesLaws
pub mod Tail
pub mod TailLaws
pub mod TextLaws
