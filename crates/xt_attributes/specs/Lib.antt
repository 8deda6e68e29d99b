pub mod View
pub mod Answers
pub mod Gathering
pub mod Sought
pub mod Stray
