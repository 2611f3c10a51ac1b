pub mod Nodes
pub mod Machines
pub mod Liveness
pub mod Ranges
pub mod Counts
pub mod Flows
pub mod Following
mod FoldedRows
pub mod Shared
