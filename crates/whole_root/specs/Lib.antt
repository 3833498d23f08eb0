pub mod Roots
pub mod Digits
pub mod Reciprocal
