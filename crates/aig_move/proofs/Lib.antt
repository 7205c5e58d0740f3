pub mod Steps
pub mod Copied
pub mod Call
pub mod Growth
pub mod Result
pub mod Meaning
pub mod Cases
