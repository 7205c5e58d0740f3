pub mod Checking
pub mod Compress
pub mod GateInit
pub mod CompressMeaning
pub mod GateInitMeaning
pub mod Steps
