pub mod Elements
pub mod Inside
pub mod Structure
pub mod Modules
