pub mod Items
pub mod Files
pub mod Passes
pub mod Codes
