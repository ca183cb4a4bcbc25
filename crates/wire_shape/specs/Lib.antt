pub mod Shape
pub mod Feeders
pub mod WirePlaces
pub use Rattle.build.specs.Place
pub use Rattle.build.specs.Plan
pub mod FeederFacts
