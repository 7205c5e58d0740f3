pub mod Laws
pub mod Value
