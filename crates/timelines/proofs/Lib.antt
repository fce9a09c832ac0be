pub mod Layouts
pub mod Readings
pub mod Texts
