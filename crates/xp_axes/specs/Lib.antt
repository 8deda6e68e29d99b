pub mod View
pub mod Along
pub mod Numbered
pub mod Placed
