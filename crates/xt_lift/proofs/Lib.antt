pub mod Next
pub mod Turns
pub mod Same
pub mod Kept
pub mod Walked
pub mod Decided
