pub mod Items
pub mod Keys
pub mod Lines
pub mod Named
pub mod Numerals
pub mod Plays
pub mod Tables
