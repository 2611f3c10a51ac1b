pub mod Turns
pub mod Loading
pub mod Yields
pub mod Waits
pub mod Takes
