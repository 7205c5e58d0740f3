pub mod Pair
pub mod Exactly
