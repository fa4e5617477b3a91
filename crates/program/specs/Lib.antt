pub mod Programs
pub mod Scopes
pub mod Compiling
pub mod Standing
pub mod Whole
