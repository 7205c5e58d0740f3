pub mod Sizes
pub mod Rows
pub mod Reading
pub mod Value
