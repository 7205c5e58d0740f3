pub mod Room
pub mod Tables
pub mod Writing
pub mod Copying
pub mod Meaning
pub mod Asking
pub mod Steps
