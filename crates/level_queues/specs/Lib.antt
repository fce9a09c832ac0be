pub mod Lists
pub mod Rings
