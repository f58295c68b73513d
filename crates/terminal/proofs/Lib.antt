pub mod Accepts
pub mod Life
pub mod Runs
mod Shown
pub mod Steps
pub mod Teaching
