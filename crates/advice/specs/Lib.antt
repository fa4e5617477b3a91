pub mod Sentences
pub mod Explanations
