pub mod Edges
pub mod Chains
