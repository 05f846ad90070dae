-- The laws of the families.
pub mod Families
