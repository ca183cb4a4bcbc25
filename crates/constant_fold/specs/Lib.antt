pub mod FoldLaws
pub mod Foldable
pub mod Tended
