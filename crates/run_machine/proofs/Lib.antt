-- The laws of the calls.
pub mod Chained
pub mod Determined
