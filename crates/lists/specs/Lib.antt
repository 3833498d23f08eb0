pub mod Commands
pub mod TwoLists
