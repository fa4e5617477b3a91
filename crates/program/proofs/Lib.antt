pub mod Sitting
pub mod CodeLaws
