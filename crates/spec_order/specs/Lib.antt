pub mod NodeSet
pub mod First
pub mod Run
