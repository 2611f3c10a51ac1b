pub mod Yields
pub mod Served
pub mod Simulating
pub mod Composing
pub mod Agreeing
pub mod YieldedOnce
mod YieldRows
