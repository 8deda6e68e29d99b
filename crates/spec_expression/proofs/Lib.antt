pub mod ValueExamples
mod GrammarExamples
pub mod Ranks
pub mod Unique
pub mod Rank
pub mod TwoDigits
pub mod CodeTexts
