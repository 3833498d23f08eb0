pub mod Floats
pub mod Opposite
pub mod AbsPattern
