pub mod Stepping
pub mod Call
pub mod Standing
pub mod Result
pub mod Forming
pub mod Meaning
pub mod Cases
