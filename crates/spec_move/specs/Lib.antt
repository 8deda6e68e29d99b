pub mod Move
pub mod Kept
pub mod Judged
pub mod Changed
