pub mod Whole
pub mod Searched
pub mod Nan
pub mod Bits
