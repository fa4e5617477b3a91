pub mod Binding
pub mod Judges
pub mod Leaves
