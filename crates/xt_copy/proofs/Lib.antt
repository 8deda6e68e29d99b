pub mod Among
pub mod Answers
pub mod Onward
pub mod Uris
