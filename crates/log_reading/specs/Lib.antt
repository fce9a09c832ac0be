pub mod Logs
pub mod Words
