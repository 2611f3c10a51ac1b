pub mod Folding
pub mod Graphs
