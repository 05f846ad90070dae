-- The laws of what a form does that belong to no one function.
pub mod Arms
pub mod Around
pub mod Ways
