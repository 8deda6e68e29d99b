pub mod Declaring
pub mod Element
pub mod View
