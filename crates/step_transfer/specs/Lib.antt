pub mod Access
pub mod Commit
