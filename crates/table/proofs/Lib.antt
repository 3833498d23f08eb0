pub mod Cases
pub mod Widths
pub mod Laws
pub mod ReplyLengths
pub mod CommandAllowances
pub mod Steps
pub mod Statuses
pub mod StatusTen
