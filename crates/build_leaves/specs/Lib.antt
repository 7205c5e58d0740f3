pub mod Calls
pub mod Leaves
pub mod Meaning
pub mod Graphs
