pub mod Lending
pub mod Stops
pub mod Yields
pub mod inside
