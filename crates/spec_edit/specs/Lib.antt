pub mod Splice
pub mod Edit
pub mod Depth
pub mod Valid
pub mod Judged
pub mod Kept
