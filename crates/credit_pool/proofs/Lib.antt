pub mod Numbers
pub mod Pools
pub mod Keeps
pub mod Changes
