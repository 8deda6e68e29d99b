pub mod Cutting
pub mod Grouped
pub mod Lettered
pub mod Loops
pub mod Sizes
pub mod Written
