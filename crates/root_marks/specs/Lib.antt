pub mod Arguments
pub mod Marking
pub mod Flags
pub mod Roots
pub mod Steps
