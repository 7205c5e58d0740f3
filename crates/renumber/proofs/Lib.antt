pub mod Writing
pub mod Mapping
pub mod Entering
pub mod Carrying
pub mod Rowing
pub mod Keeping
