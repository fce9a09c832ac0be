pub mod Account
pub mod Logged
pub mod Order
pub mod Places
pub mod Rest
pub mod World
