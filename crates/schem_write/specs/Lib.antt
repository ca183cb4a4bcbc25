pub mod Varint
pub mod PaletteTexts
pub mod Stacks
pub mod BlockEntities
pub mod Written
pub mod Code
