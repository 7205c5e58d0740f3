pub mod Starting
pub mod Call
pub mod Meaning
pub mod Cases
