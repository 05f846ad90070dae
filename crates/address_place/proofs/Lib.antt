-- The laws of a place that belong to no one function.
pub mod Entry
pub mod Flat
pub mod Page
pub mod Reach
pub mod Whole
pub mod Windows
