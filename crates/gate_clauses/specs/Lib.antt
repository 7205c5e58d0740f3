pub mod Shapes
pub mod Steps
