pub mod Bytes
pub mod Members
pub mod Search
pub mod Padding
