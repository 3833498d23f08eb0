pub mod Root
pub mod RootDigits
pub mod Parts
