pub mod Words
pub mod PlanWords
pub mod CopyWords
