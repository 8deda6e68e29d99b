pub mod Named
pub mod Recovery
pub mod Shape
