-- The laws of refusals.
pub mod Accepted
