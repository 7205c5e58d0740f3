pub mod Bridging
pub mod Nexting
