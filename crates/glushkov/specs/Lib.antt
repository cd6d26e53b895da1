pub mod Nodes
pub mod Passes
