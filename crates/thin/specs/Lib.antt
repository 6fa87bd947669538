pub mod Kept
pub mod Place
pub mod Fill
pub mod TakenOut
pub mod Guarantee
