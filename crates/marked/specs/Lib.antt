pub mod Cases
pub mod Table
pub mod Marked
pub mod Words
pub mod Same
