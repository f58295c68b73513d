pub mod Server
pub mod Trays
pub mod Models
pub mod Places
pub mod Calls
pub mod Fits
pub mod Laws
pub mod Counts
