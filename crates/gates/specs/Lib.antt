pub mod Gates
pub mod Lists
pub mod Meaning
pub mod Steps
