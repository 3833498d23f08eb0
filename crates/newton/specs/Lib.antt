pub mod Slopes
pub mod Regions
pub mod Walks
pub mod WalkAllowances
pub mod Halvings
pub mod Sides
pub mod Signs
