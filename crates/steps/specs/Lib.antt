pub mod Conversion
pub mod Span
pub mod SpanLaws
pub mod Steps
pub mod StepsLaws
