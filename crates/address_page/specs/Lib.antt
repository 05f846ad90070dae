pub mod Kinds
pub mod Map
