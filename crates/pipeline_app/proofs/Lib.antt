pub mod Calling
mod CheckFaults
pub mod EarlyFaults
pub mod Finished
pub mod Forms
pub mod Home
pub mod Playing
pub mod Ranges
pub mod RunFaults
mod Writing
