pub mod Listed
pub mod Waiting
pub mod Components
pub mod Searched
