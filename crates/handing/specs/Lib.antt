pub mod Leaving
pub mod Choosing
pub mod Binding
