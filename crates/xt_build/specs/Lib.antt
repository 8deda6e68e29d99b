pub mod Front
pub mod Leaf
pub mod Least
pub mod Left
pub mod Names
pub mod Piece
pub mod View
