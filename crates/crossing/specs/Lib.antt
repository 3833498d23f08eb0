pub mod GreatArcs
pub mod Parallels
pub mod RuleOrder
