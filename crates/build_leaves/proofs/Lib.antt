pub mod Answering
pub mod Adding
pub mod Keeping
pub mod Meaning
pub mod Graphs
