pub mod Keeping
pub mod Graphs
pub mod inside
