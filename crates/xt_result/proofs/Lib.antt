mod Escaped
mod Names
mod Openings
mod Shapes
mod Streams
pub mod Silent
