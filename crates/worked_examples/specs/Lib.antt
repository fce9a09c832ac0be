pub mod Check
pub mod Logs
pub mod Worlds
