pub mod Types
pub mod Contexts
pub mod Judgement
pub mod Scripts
pub mod Judging
pub mod Verdict
pub mod Names
pub mod Laws
