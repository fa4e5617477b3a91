pub mod ShapeLaws
pub mod LookLaws
pub mod SignatureLaws
pub mod BasisRows
pub mod ScriptRows
