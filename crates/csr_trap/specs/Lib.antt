pub mod Trap
pub mod Return
pub mod Route
