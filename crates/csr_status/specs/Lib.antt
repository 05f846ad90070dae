pub mod Fields
pub mod Status
