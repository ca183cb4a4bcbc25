pub mod Taps
pub mod Readers
pub mod Reads
pub mod Parts
pub mod Things
pub mod Numbers
pub mod Wired
