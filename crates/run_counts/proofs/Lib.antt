pub mod Looking
pub mod Most
pub mod Pieces
