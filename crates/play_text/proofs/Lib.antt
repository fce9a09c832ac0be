pub mod Counted
pub mod HexWords
