pub mod Ports
pub mod Run
