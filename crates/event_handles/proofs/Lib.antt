pub mod Changed
pub mod Fronts
pub mod KindLists
pub mod Refusals
pub mod Rests
pub mod Sends
pub mod Sweeps
pub mod Writes
