pub mod Followed
pub mod FollowedLaws
