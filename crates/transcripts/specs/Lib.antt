pub mod Allowed
pub mod Choice
pub mod Lawful
pub mod Laws
pub mod Replies
pub mod Standing
pub mod Sweep
pub mod Transcript
