pub mod Arguments
pub mod Flagging
pub mod Marking
pub mod Roots
