-- The laws of remembered pages that belong to no one function.
pub mod Moved
pub mod Decided
pub mod Kept
