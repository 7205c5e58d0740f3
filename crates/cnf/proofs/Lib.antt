pub mod Booleans
pub mod Fitting
pub mod Sound
pub mod Decoding
pub mod Walking
pub mod Calling
pub mod Meaning
pub mod Examples
