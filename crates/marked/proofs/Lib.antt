pub mod Marked
pub mod Telling
