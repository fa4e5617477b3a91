pub mod Agreeing
pub mod Hex
pub mod Repeated
