pub mod Counted
pub mod Most
