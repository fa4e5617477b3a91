pub mod Lines
pub mod Shown
pub mod Explained
