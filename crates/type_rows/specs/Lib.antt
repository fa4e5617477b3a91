pub mod Shapes
pub mod Rows
pub mod Signatures
pub mod TypeExprs
