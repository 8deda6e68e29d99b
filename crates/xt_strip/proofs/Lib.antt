pub mod Edits
pub mod Places
pub mod Sharing
pub mod Siblings
pub mod Staying
