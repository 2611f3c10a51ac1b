pub mod Columns
pub mod Blame
pub mod Reached
