pub mod Chains
pub mod Numbered
pub mod Finding
pub mod Linking
pub mod Adding
