-- The laws of leaves that belong to no one function.
pub mod Grants
pub mod Shortcut
