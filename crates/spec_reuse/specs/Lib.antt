pub mod Among
pub mod Instantiation
pub mod Serving
pub mod Record
pub mod Cost
pub mod Alike
pub mod Ledger
