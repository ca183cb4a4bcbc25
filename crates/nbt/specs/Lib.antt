pub mod Plain
pub mod Spelling
pub mod Faults
pub mod Reading
pub mod Named
pub mod Writing
