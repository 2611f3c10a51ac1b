pub mod Lengths
pub mod Exits
pub mod Making
pub mod Ranges
pub mod Sections
pub mod Made
