pub mod Texts
pub mod Faults
pub mod Comparing
pub mod Operators
