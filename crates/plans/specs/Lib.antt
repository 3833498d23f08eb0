pub mod Endings
pub mod Plans
pub mod PlanAllowances
