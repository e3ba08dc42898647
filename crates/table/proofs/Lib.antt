pub mod Most
pub mod Cells
pub mod Rows
pub mod Places
pub mod Tables
pub mod Walks
pub mod Follows
