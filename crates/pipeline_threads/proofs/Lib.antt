pub mod Answering
pub mod Bringing
pub mod Counting
pub mod Reports
pub mod Runs
pub mod Submitting
pub mod Wholes
