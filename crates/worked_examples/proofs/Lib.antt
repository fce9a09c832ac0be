pub mod Added
pub mod Early
pub mod LogsLawful
pub mod Refused
pub mod Slot
pub mod Sound
pub mod WorldsRefused
