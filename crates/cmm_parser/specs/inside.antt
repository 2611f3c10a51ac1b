pub mod Parsing
pub mod Ended
