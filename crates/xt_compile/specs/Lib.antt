pub mod Faulty
pub mod Opened
pub mod Placed
pub mod Rules
pub mod Space
pub mod Stock
pub mod View
