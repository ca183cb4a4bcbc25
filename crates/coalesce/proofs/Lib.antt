pub mod FanSteps
pub mod LookSteps
pub mod PairSteps
pub mod TriedSteps
pub mod WaitSteps
pub mod SweepSteps
pub mod SourceSteps
