pub mod Lists
pub mod Removed
pub mod Rings
