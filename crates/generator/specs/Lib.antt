pub mod UnitCells
pub mod Made
