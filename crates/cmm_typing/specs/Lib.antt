pub mod Fitting
pub mod Resolved
pub mod Meanings
pub mod Words
pub mod inside
