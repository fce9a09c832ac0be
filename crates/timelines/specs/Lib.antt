pub mod Layout
pub mod Links
pub mod Marks
pub mod Picture
pub mod Readings
