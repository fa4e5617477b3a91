pub mod Adding
pub mod Firsts
pub mod Passing
pub mod Whole
