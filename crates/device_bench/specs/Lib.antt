pub mod Fault
pub mod Rounds
pub mod Run
pub mod Trace
