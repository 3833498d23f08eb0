pub mod Walking
pub mod WalkAllowances
pub mod SlopeParts
pub mod SlopeSides
pub mod SignsByOrder
