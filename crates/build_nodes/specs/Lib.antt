pub mod Nodes
pub mod Meaning
pub mod Graphs
pub mod Steps
