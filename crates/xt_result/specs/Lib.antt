pub mod Ahead
pub mod Code
pub mod View
pub mod Silent
