pub mod Calling
pub mod Meaning
pub mod Graphs
