pub mod Last
pub mod TwoLists
