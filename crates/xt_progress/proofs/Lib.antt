pub mod Goings
pub mod Parts
