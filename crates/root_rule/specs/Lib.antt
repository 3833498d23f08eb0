pub mod Nearest
pub mod DigitsRule
pub mod RootExamples
pub mod DigitsExamples
