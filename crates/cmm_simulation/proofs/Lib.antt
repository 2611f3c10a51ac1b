pub mod Agreements
pub mod Composing
pub mod Followings
pub mod LazyMachines
pub mod Paths
pub mod Prefixes
mod Rows
pub mod Runs
pub mod Scaling
pub mod Simulations
pub mod SmallMachines
pub mod Testing
