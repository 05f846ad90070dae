-- The laws of "From address to byte" that belong to no one function; those of a place are in crate `address_place`.
pub mod Masking
pub mod Rows
pub mod Lifted
