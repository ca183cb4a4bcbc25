pub mod Going
pub mod FirePieces
pub mod Scripts
mod TextRows
pub mod WorldRuns
pub mod GraphRuns
pub mod AnyRuns
