pub mod Arity
pub mod Begins
pub mod Lines
pub mod Numbers
pub mod Spelling
pub mod Stepping
