pub mod CommandLine
pub mod Fault
pub mod FaultText
pub mod Input
pub mod Output
