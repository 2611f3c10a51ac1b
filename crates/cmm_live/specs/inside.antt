pub mod Marking
pub mod Unions
pub mod Edges
pub mod Worklists
pub mod Closing
pub mod Gathering
pub mod Interfering
