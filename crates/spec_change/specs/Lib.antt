pub mod Change
pub mod Taken
