pub mod Answering
pub mod Rules
pub mod Meaning
