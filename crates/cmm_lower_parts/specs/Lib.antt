pub mod Fitting
pub mod Held
pub mod Owned
pub mod inside
pub mod Exported
pub mod Registers
pub mod Laws
