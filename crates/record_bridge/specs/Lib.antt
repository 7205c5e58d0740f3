pub mod Bridge
pub mod Meaning
