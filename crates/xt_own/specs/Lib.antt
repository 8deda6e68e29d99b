pub mod Asking
pub mod Keys
pub mod Logs
pub mod Made
pub mod View
