pub mod Among
pub mod Sparing
