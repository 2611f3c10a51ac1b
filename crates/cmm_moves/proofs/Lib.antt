pub mod Places
pub mod Moving
pub mod Paths
mod Rows
