pub mod Nodes
pub mod Plan
