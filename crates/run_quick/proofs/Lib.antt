-- The laws of the quick way that belong to no one function.
pub mod Padless
pub mod Seeing
pub mod Values
