pub mod Match
pub mod Ways
pub mod Groups
pub mod Pieces
pub mod Meaning
pub mod Starts
pub mod Matched
