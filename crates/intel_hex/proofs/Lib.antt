-- The laws of HEX texts that belong to no one function.
pub mod Digits
pub mod Lookup
pub mod Pairs
pub mod Lines
pub mod Good
pub mod Turns
pub mod Begins
pub mod Loads
pub mod Named
pub mod Bytes
pub mod Kept
pub mod Order
pub mod Records
