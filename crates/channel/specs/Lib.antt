pub mod Channel
pub mod Channels
pub mod Held
pub mod Laws
pub mod Runs
