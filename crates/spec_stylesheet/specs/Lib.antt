pub mod Place
pub mod Pattern
pub mod ValueTemplate
pub mod Instruction
pub mod Sheet
