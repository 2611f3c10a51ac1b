pub mod Reading
pub mod Spellings
pub mod Wholes
pub mod Ascending
pub mod Records
pub mod SecondSpellings
pub mod Seen
pub mod Fronts
