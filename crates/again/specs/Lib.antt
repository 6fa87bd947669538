pub mod Same
pub mod Again
