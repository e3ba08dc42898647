pub mod Choices
pub mod Tried
