pub mod Told
pub mod Words
