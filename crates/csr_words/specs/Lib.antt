pub mod Words
pub mod Warl
pub mod Setting
pub mod Trap
pub mod Return
pub mod Legal
