pub mod Rests
pub mod Spelling
pub mod Standing
pub mod Telling
