pub mod Judge
pub mod Usual
