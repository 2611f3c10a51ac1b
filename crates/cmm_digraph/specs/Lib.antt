pub mod Graphs
pub mod Peeled
pub mod inside
pub mod Reaching
