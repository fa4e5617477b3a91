pub mod Asking
pub mod Judged
