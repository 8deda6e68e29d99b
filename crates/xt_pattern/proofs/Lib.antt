pub mod Views
pub mod Steps
pub mod Heads
pub mod Alternatives
pub mod Texts
