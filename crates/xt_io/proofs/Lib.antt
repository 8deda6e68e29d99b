pub mod Fronts
pub mod Newlines
pub mod Reading
pub mod Written
pub mod Holding
