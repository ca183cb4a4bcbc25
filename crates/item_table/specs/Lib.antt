pub mod Stacks
pub mod Strength
