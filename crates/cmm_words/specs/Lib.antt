pub mod Widths
pub mod Integers
pub mod Words
pub mod Constants
pub mod Digits
pub mod Laws
