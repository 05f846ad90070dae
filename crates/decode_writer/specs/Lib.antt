pub mod Format
pub mod Pack
pub mod Promise
