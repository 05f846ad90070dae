-- The laws of the memo and of a step by it that belong to no one function.
pub mod Entries
pub mod Fetched
pub mod Kept
pub mod Ready
pub mod Turning
