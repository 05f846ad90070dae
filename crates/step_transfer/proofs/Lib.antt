-- The laws of accesses that belong to no one function.
pub mod Reached
