pub mod Prefers
pub mod Edges
pub mod Reading
pub mod Starts
pub mod Refused
