pub mod Trees
pub mod Sexps
pub mod Forms
pub mod Reading
pub mod Grammar
pub mod Limits
pub mod Laws
pub mod Streams
