pub mod Escapes
pub mod Events
