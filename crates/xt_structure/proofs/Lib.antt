pub mod Labels
pub mod Siblings
pub mod WordLists
