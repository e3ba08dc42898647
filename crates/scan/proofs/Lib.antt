pub mod Attempts
pub mod Earliest
pub mod Turns
