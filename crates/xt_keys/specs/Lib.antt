pub mod View
pub mod Nodes
