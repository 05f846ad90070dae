-- The laws of bytes in memory that belong to no one function.
pub mod Accepted
pub mod Halves
pub mod Sums
pub mod Numbers
pub mod Stores
