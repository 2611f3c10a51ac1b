pub mod Conditions
pub mod Filling
pub mod Laws
pub mod inside
