pub mod Clauses
pub mod Decode
pub mod Call
pub mod Meaning
pub mod Examples
pub mod Steps
