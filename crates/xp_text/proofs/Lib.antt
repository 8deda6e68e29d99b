pub mod Finding
pub mod Languages
pub mod Loops
