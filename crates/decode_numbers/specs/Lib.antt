pub mod Family
pub mod Key
pub mod Numbers
