pub mod ShowsOnly
pub mod Words
pub mod Wires
pub mod Torches
pub mod Repeaters
pub mod Comparators
pub mod Clicked
