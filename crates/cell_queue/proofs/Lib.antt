pub mod HeldSteps
