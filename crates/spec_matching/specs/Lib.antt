pub mod Asked
pub mod AsExpression
pub mod Tree
pub mod Given
