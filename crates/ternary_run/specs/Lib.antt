pub mod Codes
pub mod Run
pub mod Steps
