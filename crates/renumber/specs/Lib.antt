pub mod Renumber
pub mod Seen
pub mod Entries
pub mod Kept
pub mod Meaning
pub mod Steps
