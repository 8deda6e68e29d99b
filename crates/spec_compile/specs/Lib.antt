pub mod Reading
pub mod Walk
pub mod Value
pub mod Content
pub mod Unit
pub mod Scoping
pub mod Sheet
