pub mod Laws
pub mod Models
pub mod Replies
pub mod Sends
pub mod Terminal
