pub mod There
pub mod Programs
pub mod OneNode
pub mod Entries
pub mod Grouping
pub mod Lookups
pub mod Refs
