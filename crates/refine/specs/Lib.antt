pub mod Refining
pub mod Call
pub mod Meaning
pub mod Steps
