pub mod Registers
pub mod Regions
pub mod Laws
