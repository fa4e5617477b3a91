pub mod Ready
pub mod Holding
pub mod Waiting
pub mod Mirrors
pub mod Going
