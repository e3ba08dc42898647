pub mod Layout
pub mod Attempts
