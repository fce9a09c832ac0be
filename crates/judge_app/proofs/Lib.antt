pub mod Given
pub mod Texts
pub mod Walks
