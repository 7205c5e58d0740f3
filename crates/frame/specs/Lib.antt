pub mod Map
pub mod Frame
pub mod Call
pub mod Meaning
pub mod Steps
