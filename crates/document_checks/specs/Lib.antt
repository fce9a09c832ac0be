pub mod Explanations
pub mod Keys
pub mod Places
