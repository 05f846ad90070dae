-- The laws of the quick way's accesses that belong to no one function.
pub mod Loaded
