-- The laws of what is done in place that belong to no one function.
pub mod Ways
pub mod Parts
