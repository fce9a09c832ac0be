pub mod Entries
pub mod Faults
pub mod Pipelines
pub mod Readings
pub mod Refusals
pub mod Stages
pub mod Workers
