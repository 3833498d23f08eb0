pub mod PlanAllowances
