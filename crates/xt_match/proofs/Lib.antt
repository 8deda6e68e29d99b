pub mod Together
pub mod Views
pub mod Turns
pub mod Scopes
pub mod Forms
pub mod Skipping
pub mod Tables
