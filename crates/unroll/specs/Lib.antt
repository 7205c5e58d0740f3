pub mod Unroll
pub mod Meaning
