pub mod Formed
pub mod Fronts
pub mod Ledger
pub mod Reading
pub mod Rows
pub mod Scans
pub mod Verdicts
pub mod Waiting
