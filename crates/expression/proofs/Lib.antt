pub mod Lays
pub mod Matched
