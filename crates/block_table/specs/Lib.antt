pub mod Table
pub mod StateText
pub mod BlockText
pub mod Facts
pub mod WrittenText
