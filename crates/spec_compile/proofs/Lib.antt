pub mod Readings
pub mod Modules
pub mod Sheets
pub mod Answers
pub mod Names
pub mod Orders
pub mod Gathering
pub mod Wanting
