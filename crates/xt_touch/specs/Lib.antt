pub mod Asked
pub mod Loose
pub mod Missing
pub mod Named
pub mod Sameness
pub mod Sets
pub mod View
