pub mod Instruction
pub mod Plan
pub mod Context
