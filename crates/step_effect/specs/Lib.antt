pub mod Register
pub mod Compute
pub mod Jump
pub mod System
pub mod Csrs
pub mod Effect
