pub use Rattle.circuit.specs.Keys
pub use Rattle.power_rules.specs.World
pub mod Begun
pub mod OrderText
pub mod BadLine
pub mod LineForms
pub mod Reading
