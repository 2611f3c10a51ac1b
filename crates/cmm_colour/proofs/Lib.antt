pub mod Counting
pub mod Noting
pub mod Telling
pub mod Ordering
pub mod Chosen
pub mod Sorting
pub mod Joining
pub mod Coloured
mod Rows
pub mod Shared
