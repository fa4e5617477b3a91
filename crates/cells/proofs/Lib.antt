pub mod CellLaws
pub mod RecordLaws
pub mod Calls
pub mod Pairs
pub mod LentLaws
