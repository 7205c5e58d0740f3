pub mod Cone
pub mod Call
pub mod Meaning
