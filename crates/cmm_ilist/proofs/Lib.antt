pub mod Elements
pub mod Counting
pub mod Unlinking
pub mod Pushing
pub mod Linked
pub mod Answering
mod Rows
pub mod Shared
