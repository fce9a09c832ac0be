pub mod Numbered
pub mod Whole
pub mod OneMore
