pub mod Code
pub mod Front
pub mod Cut
pub mod Reading
pub mod Parsed
