pub mod Wrapping
pub mod Divisions
pub mod Shifts
pub mod LookUps
pub mod Decimals
pub mod Symbols
pub mod Typing
