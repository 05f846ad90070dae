-- The laws of words that belong to no one function.
pub mod Bools
pub mod Choices
pub mod Either
pub mod Tables
pub mod Parts
pub mod Halves
pub mod Extension
pub mod Filling
pub mod Machine
pub mod Sizes
pub mod Orders
pub mod Sums
pub mod Below
pub mod Rows
