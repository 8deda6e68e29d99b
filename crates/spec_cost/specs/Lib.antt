pub mod Numbers
pub mod Naming
pub mod Marking
pub mod Past
pub mod Paying
pub mod Fresh
