pub mod Lines
pub mod LinesLaws
pub mod PlanLaws
pub mod Listed
pub mod ListedLaws
