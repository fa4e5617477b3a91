pub mod Plains
pub mod Exchange
pub mod Defines
pub mod Functions
pub mod Spreads
pub mod Gathered
