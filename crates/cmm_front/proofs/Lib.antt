pub mod Read
pub mod First
pub mod Named
pub mod Meant
pub mod Meanings
