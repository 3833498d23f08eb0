pub mod Filling
pub mod Inputs
pub mod Laws
pub mod Lines
pub mod Numbers
pub mod Orders
pub mod Ranks
