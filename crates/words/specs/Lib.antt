pub mod Grammar
pub mod Reader
pub mod Meaning
pub mod Found
