pub mod Attempts
pub mod Earliest
