pub mod Floats
pub mod Constants
pub mod Inverse
pub mod Circular
