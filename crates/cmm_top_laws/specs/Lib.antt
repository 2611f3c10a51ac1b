pub mod Explained
pub mod Calls
pub mod Walked
pub mod Laws
pub mod Accepted
