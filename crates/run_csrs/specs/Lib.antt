pub mod Named
pub mod Handler
