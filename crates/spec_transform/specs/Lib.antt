pub mod Position
pub mod Match
pub mod Choice
pub mod Key
pub mod Expansion
pub mod Sorted
pub mod Numbering
