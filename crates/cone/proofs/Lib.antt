pub mod Marking
pub mod Call
pub mod Meaning
