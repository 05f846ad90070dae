pub mod Place
pub mod Window
