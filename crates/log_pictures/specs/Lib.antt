pub mod Drawn
pub mod Faults
