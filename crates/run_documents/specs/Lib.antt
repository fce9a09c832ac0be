pub mod Actions
pub mod Drafts
pub mod Judge
pub mod Pipelines
pub mod Survey
pub mod Trace
