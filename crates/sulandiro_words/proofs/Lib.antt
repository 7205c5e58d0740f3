pub mod Telling
mod Words
