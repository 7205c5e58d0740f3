pub mod Mapping
pub mod Framing
pub mod Ready
pub mod Extending
pub mod Forming
pub mod Valuing
pub mod Bounding
pub mod Meaning
