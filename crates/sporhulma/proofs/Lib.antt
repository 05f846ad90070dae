-- The laws of the boundary.
pub mod Kept
pub mod Answered
pub mod One
