pub mod Leaving
pub mod Levels
pub mod Stepping
pub mod Chains
pub mod Simulating
pub mod Following
pub mod SmallControls
mod Rows
pub mod Shared
