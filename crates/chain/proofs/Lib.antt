pub mod ChainLaws
pub mod ChainSteps
