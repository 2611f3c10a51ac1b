pub mod States
pub mod Tables
pub mod Shared
pub mod Counting
