pub mod Compiling
pub mod Placed
pub mod Classes
pub mod Allocated
pub mod Places
pub mod Placing
pub mod Laws
pub mod inside
