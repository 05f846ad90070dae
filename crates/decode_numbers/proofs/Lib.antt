-- The laws of an instruction's numbers that belong to no one function.
pub mod Keys
pub mod Again
