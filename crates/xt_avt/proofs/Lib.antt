pub mod Fronts
pub mod Cutting
pub mod Gathering
pub mod Joining
