pub mod Shared
