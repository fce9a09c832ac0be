pub mod Example
pub mod Past
pub mod Pipeline
pub mod Promises
pub mod RunText
pub mod Worked
