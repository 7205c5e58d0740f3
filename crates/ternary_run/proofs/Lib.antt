pub mod Table
pub mod Coding
pub mod Running
