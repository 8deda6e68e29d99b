pub mod View
pub mod Laws
pub mod Distinct
pub mod Steps
pub mod Precedences
pub mod Reach
pub mod Told
