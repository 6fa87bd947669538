pub mod Small
pub mod ChannelLaws
pub mod GeometryLaws
