pub mod Net
pub mod Laws
pub mod Sweeps
pub mod Listed
pub mod WaveSteps
pub mod Ready
pub mod HandNet
pub mod Noted
