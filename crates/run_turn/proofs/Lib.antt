pub mod Aside
pub mod Gliding
