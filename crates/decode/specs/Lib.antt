pub mod Cfi
pub mod System
pub mod Decode
