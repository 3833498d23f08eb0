pub mod Middle
pub mod Nearest
pub mod Rounded
pub mod DigitsRule
pub mod RootExamples
pub mod DigitsExamples
