pub mod Visiting
pub mod Walking
pub mod Linking
pub mod Call
pub mod Searching
pub mod Meaning
