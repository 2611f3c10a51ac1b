pub mod Offsets
pub mod Registers
pub mod Lasting
pub mod Holding
pub mod Entering
pub mod Leaving
pub mod Walking
pub mod Setting
mod Rows
pub mod Shared
