pub mod Found
pub mod Part
