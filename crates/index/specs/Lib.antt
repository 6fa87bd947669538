pub mod Index
pub mod IndexLaws
pub mod MetLaws
