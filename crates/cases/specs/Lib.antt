pub mod Blanks
pub mod Written
pub mod Within
pub mod Reading
pub mod Taking
