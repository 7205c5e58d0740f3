pub mod Numbers
pub mod Rebuilding
pub mod Call
pub mod Meaning
pub mod Steps
