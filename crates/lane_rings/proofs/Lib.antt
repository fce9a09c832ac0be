pub mod Growing
pub mod Handing
pub mod HeldPairs
pub mod Room
pub mod Fetching
pub mod Singles
pub mod LaneSets
pub mod Answering
