pub mod CompiledFiles
pub mod OneMeaning
