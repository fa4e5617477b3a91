pub mod Turning
pub mod Speech
pub mod Literals
