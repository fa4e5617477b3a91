pub mod Kinds
pub mod Values
pub mod Records
pub mod Refusals
pub mod Meaning
pub mod Laws
pub mod Lent
