pub mod Decided
pub mod DecideLaws
pub mod Reasons
