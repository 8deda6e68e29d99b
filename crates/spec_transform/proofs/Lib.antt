pub mod Greatest
pub mod Keyed
pub mod Unrefused
pub mod Arranged
pub mod KeyOrder
pub mod InOrder
