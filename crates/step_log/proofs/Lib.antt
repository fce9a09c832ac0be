pub mod Deals
pub mod Forwards
