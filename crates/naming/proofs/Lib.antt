pub mod KindLaws
pub mod LeafLaws
pub mod BindLaws
pub mod PartsLaws
pub mod ParameterLaws
pub mod CountLaws
pub mod MatchLaws
