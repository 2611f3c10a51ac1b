pub mod EntryCycles
pub mod Ends
pub mod Shared
