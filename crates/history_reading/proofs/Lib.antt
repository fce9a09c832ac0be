pub mod Deeds
pub mod Events
pub mod Numbers
pub mod Readings
