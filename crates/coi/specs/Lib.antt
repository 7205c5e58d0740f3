pub mod Coi
pub mod Call
pub mod Meaning
pub mod Steps
