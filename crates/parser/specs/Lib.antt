pub mod TypeParts
pub mod Recording
pub mod Noting
pub mod Listing
pub mod Defining
