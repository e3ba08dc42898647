pub mod Bytes
pub mod Grammar
pub mod Reader
pub mod Items
pub mod Parse
pub mod Classes
pub mod Places
pub mod Worked
