pub mod Fault
pub mod Front
pub mod LineBuffer
pub mod Steps
pub mod Memory
