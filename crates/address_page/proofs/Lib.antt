-- The laws of the page map that belong to no one function.
pub mod Entries
