pub mod Parts
pub mod Indexing
