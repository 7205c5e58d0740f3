pub mod Going
pub mod Call
pub mod Starting
pub mod Meaning
