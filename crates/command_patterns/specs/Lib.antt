pub mod Patterns
pub mod Held
pub mod Listing
pub mod Laws
