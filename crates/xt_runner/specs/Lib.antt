pub mod Start
pub mod Parameter
pub mod Onward
pub mod Counted
