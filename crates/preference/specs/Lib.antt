pub mod Brackets
pub mod Found
pub mod Worked
