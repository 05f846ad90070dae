pub mod Kind
pub mod Control
pub mod Mask
pub mod Align
pub mod Stack
pub mod Cause
