pub mod Capped
pub mod inside
