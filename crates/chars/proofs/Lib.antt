pub mod Table
pub mod Text
pub mod Parts
pub mod Wide
