pub mod CountsText
pub mod Looking
pub mod Waiting
pub mod CountsJson
