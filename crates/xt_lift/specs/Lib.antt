pub mod Names
pub mod Loops
pub mod Parameters
pub mod Left
