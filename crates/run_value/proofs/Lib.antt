-- The laws of values that belong to no one function.
pub mod Rows
