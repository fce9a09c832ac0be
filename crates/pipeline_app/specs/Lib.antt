pub mod Calls
pub mod Checks
pub mod Commands
pub mod Play
pub mod Runs
