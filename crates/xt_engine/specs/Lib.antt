pub mod View
pub mod Progress
pub mod Advances
