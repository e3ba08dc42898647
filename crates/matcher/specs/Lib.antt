pub mod Answers
pub mod Regions
pub mod Laws
pub mod Refusals
