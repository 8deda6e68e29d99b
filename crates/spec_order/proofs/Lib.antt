pub mod Lists
pub mod Ends
pub mod Meanings
pub mod Truths
pub mod Firsts
pub mod Plans
pub mod Runs
