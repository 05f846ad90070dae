-- The laws of the writer that belong to no one function.
pub mod Formats
pub mod Back
pub mod Cfi
pub mod Decoded
pub mod Answer
pub mod Promised
pub mod Reach
pub mod Reached
