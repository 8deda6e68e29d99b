pub mod Code
pub mod Reading
pub mod Parsed
