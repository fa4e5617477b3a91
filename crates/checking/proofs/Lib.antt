pub mod StepLaws
pub mod MainLaws
pub mod EndLaws
pub mod DefineLaws
pub mod CheckLaws
