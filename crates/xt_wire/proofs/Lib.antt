pub mod Texts
pub mod FirstWords
pub mod Taken
pub mod Written
pub mod Paths
