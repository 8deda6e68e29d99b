pub mod Views
pub mod Referring
pub mod Turns
