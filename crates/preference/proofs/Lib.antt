pub mod Chosen
pub mod Bracketing
pub mod Placing
pub mod Telling
pub mod Only
pub mod Dividing
