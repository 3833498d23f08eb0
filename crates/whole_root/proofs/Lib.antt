pub mod Squares
pub mod Step
pub mod Loop
pub mod Turn
pub mod Zeros
pub mod Fewest
