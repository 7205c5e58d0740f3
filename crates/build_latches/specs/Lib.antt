pub mod Latches
pub mod Meaning
pub mod Graphs
