pub mod Choices
pub mod Tries
