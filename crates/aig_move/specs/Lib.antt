pub mod Making
pub mod Moving
pub mod Call
pub mod Meaning
pub mod Steps
