pub mod ContextLaws
pub mod PlacedLaws
