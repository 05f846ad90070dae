-- The laws of the forms that belong to no one function.
pub mod Laws
