pub mod Standing
pub mod Walks
pub mod Graphs
pub mod FoldRows
pub mod Shared
