pub mod State
pub mod Progress
pub mod Turn
pub mod Counting
