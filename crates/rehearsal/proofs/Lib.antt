pub mod Growing
pub mod Judgements
pub mod Histories
pub mod Rehearsed
