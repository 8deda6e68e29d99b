pub mod Some
pub mod Enough
pub mod Again
pub mod Fresh
pub mod Least
