pub mod Longest
pub mod Outside
