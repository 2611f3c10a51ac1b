pub mod Numbers
pub mod Types
pub mod inside
pub mod Depending
pub mod Dependent
pub mod Senses
