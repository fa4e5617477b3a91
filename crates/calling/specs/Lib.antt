pub mod Applying
pub mod Ripe
pub mod Gathering
