-- Theorems about the definitions that belong to no one function.
pub mod Examples
pub mod Zimops
