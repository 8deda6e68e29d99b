pub mod Code
pub mod Number
pub mod Strings
pub mod Token
pub mod Syntax
pub mod Grammar
