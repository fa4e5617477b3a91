pub mod Defining
pub mod Drafting
pub mod Whole
pub mod Check
