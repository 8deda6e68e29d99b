pub mod CalledIn
pub mod Context
pub mod Fitting
pub mod Tabled
