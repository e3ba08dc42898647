pub mod Sets
pub mod Marks
pub mod Edges
pub mod Leads
pub mod Lines
