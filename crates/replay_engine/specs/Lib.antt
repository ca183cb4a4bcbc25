pub mod Near
pub mod Things
pub mod Numbers
pub mod WireThings
pub mod Running
pub mod Given
pub mod Stores
pub use Rattle.power_rules.specs.World
