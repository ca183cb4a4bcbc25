pub mod Appended
pub mod BlockLine
mod TextRows
