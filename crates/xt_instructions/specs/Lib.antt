pub mod Copied
pub mod Over
pub mod Asks
