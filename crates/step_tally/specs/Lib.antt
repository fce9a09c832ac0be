pub mod Counts
pub mod Last
pub mod Tables
