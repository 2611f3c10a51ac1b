mod Digits
pub mod Writing
pub mod Shared
