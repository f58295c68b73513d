mod Bodies
mod Counts
mod Names
mod Searches
mod Shape
mod Steps
mod Views
mod Walks
