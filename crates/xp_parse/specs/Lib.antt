pub mod View
pub mod Front
pub mod Reading
pub mod Parsed
pub mod Code
