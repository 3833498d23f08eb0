pub mod Vectors
pub mod LonLats
pub mod Points
pub mod Quarters
pub mod WholeTurns
pub mod RememberedQuarters
pub mod TurnedBack
