pub mod Lying
pub mod Tallies
pub mod Types
pub mod Names
pub mod Pairs
pub mod Known
