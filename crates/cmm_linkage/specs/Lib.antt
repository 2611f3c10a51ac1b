pub mod Exports
pub mod Registers
pub mod inside
