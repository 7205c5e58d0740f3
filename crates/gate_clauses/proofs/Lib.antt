pub mod Recognising
pub mod Writing
