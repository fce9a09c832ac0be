pub mod Balance
pub mod DealtRows
pub mod Entries
pub mod GivenRows
pub mod Pushes
pub mod RowCounts
