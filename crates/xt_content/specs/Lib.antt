pub mod View
pub mod Sibling
pub mod Kind
pub mod Visit
pub mod Attribute
