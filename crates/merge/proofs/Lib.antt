pub mod Ready
pub mod Call
pub mod Shifting
pub mod Forming
pub mod Meaning
pub mod Cases
