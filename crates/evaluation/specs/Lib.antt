pub mod Evaluation
pub mod Laws
