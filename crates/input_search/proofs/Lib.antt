pub use Rattle.wiring.proofs.Lists
pub use Rattle.wiring.proofs.TapLaws
pub mod Distances
pub mod Readings
pub mod RawLaws
pub mod Order
pub mod Shown
pub mod RawWorld
pub mod SoundRaw
pub mod WhichLinks
mod RawRows
mod AddSteps
mod CellOrder
mod ListSteps
mod RankSteps
mod ReaderTaps
mod FillSteps
mod RawLinks
mod WireNumbers
mod WiringSteps
mod Waves
mod JoinedCells
mod MetCells
mod SourceCells
mod Far
mod Gathered
