pub mod Accounts
pub mod Rule
pub mod Steps
pub mod Answers
pub mod Pockets
pub mod Pool
