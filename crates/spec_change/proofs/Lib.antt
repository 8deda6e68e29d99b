pub mod Branches
pub mod Changing
pub mod Gone
pub mod Agreeing
pub mod Sparing
