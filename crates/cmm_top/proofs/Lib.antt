pub mod FilesRead
pub mod ReadsMade
pub mod Refusing
pub mod Counting
pub mod Asked
pub mod Closing
