pub mod Sources
pub mod Refusing
pub mod Programs
pub mod Laws
