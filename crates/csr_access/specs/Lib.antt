pub mod Enable
pub mod Exception
pub mod Reach
