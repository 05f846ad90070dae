pub mod Bytes
pub mod Extend
pub mod Refusal
