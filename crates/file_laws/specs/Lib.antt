pub mod JoinedLaws
pub mod OpenedLaws
pub mod FormLaws
pub mod RangeLaws
pub mod Standing
pub mod StandingLaws
pub mod LimitLaws
pub mod PlotLaws
