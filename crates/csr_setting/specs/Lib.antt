pub mod Regime
pub mod Reach
pub mod Legal
