-- The laws of effects that belong to no one function.
pub mod Stays
pub mod Aligned
pub mod Examples
