pub mod Agreement
pub mod Refusing
pub mod inside
