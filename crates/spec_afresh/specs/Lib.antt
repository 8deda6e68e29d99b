pub mod Characters
pub mod Afresh
