pub mod Start
pub mod Turns
pub mod Compose
pub mod Longer
pub mod Steps
pub mod Rows
