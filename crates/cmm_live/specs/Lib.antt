pub mod Locals
pub mod Sites
pub mod Exact
pub mod Conflicts
pub mod Interference
pub mod Laws
pub mod inside
