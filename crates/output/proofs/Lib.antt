pub mod Writing
pub mod Fitting
pub mod Copying
pub mod Asking
pub mod Forming
