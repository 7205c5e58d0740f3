pub mod Ordering
pub mod Building
pub mod Listing
pub mod Growing
pub mod Meaning
