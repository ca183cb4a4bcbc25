pub use Rattle.circuit.specs.KeySteps as Keys
pub use Rattle.circuit.specs.Settled
pub use Rattle.circuit.specs.Simulate
pub use Rattle.circuit.specs.Matches
pub use Rattle.circuit.specs.Bounded
pub mod Runs
pub mod FiringLaw
pub mod LeftLaw
pub mod PutRuns
pub mod RestLaw
pub mod Joining
pub mod Kept
pub mod WireCells
mod Rows
