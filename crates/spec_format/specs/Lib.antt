pub mod Examples
pub mod Format
