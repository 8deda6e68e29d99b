pub mod View
pub mod Pending
pub mod Tree
pub mod Table
pub mod Walk
pub mod Parts
pub mod Levels
pub mod Gathering
