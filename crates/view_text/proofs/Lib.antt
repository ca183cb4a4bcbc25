pub mod Comparing
pub mod Mending
