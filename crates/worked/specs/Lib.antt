pub mod Fates
pub mod Worked
