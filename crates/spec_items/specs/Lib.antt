pub mod Mentioned
pub mod Lifted
pub mod Liftable
pub mod Fits
