pub mod NodeSteps
pub mod OrderSteps
pub mod RingCalls
pub mod RingSteps
pub mod TickSteps
