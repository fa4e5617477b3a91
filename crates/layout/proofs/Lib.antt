pub mod DecodingOnly
pub mod Sizes
pub mod InText
pub mod Lists
pub mod Standing
pub mod ScriptStanding
