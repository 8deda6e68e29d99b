pub mod Touched
pub mod Leads
pub mod Marks
pub mod Moved
pub mod Plain
