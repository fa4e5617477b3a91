pub mod Parts
pub mod Indexing
pub mod Numbering
