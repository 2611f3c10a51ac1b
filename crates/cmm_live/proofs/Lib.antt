pub mod Marking
pub mod Unions
pub mod Worklists
pub mod Edges
pub mod Growing
pub mod Turns
pub mod Gathering
pub mod Conflicting
pub mod Interfering
pub mod Pairing
pub mod ConflictGraphs
mod Rows
pub mod Shared
