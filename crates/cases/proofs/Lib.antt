pub mod FrontLaws
pub mod AdvanceLaws
