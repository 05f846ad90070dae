pub mod Boundary
pub mod Load
