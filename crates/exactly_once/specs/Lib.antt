pub mod History
pub mod Houses
pub mod Lived
pub mod Promise
pub mod Steps
pub mod Words
