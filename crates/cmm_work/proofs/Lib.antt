pub mod FilesRead
pub mod ReadsMade
pub mod RanOut
pub mod Preparing
pub mod Leaving
pub mod Walked
pub mod Shared
