pub mod Dice
pub mod Sums
