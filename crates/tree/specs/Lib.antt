pub mod Asks
pub mod Contents
pub mod Kinds
pub mod Laws
pub mod Replies
pub mod Shape
pub mod Tree
