pub mod Uses
pub mod Explained
