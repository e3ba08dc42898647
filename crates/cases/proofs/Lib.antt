pub mod Parts
pub mod Decimal
pub mod Folded
pub mod Pairs
