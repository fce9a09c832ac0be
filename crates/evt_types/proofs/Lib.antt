pub mod Additions
pub mod Events
pub mod FlowLanes
pub mod Limits
pub mod Plans
pub mod Words
