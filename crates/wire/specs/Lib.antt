pub mod Bounds
pub mod Groups
pub mod Models
pub mod Wire
pub mod Written
