pub mod Flagging
pub mod Numbering
pub mod Copying
pub mod Reaching
pub mod Stepping
