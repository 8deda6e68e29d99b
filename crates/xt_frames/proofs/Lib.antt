pub mod Passed
pub mod Founds
pub mod Lefts
pub mod Performs
pub mod Frames
pub mod Whole
pub mod Entering
