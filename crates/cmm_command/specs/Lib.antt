pub mod FirstWords
pub mod Options
pub mod Numbers
pub mod Reading
pub mod Meaning
pub mod Laws
