pub mod Addresses
pub mod Carrying
pub mod Decoding
